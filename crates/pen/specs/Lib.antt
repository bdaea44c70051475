-- What the pen promises, and what its callers make of it.
pub mod Wrote
pub mod Written
pub mod Decimals
pub mod Fields
