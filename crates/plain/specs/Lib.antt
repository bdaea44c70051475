-- What the promises of this crate cite.
pub mod Nested
pub mod Lists
pub mod Values
pub mod Steps
