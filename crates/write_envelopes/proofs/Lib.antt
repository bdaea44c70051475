pub mod Wholes
pub mod Envelopes
pub mod Checking
pub mod Passing
pub mod Noting
pub mod Writing
pub mod Extensions
