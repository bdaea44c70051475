pub mod Codes
