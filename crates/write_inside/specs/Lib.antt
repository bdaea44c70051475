pub mod Parameters
pub mod Insides
