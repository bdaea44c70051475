pub mod Whole
pub mod Extension
