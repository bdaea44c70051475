pub mod Parts
pub mod Refusing
pub mod Joining
