pub mod Told
pub mod Codes
pub mod Rows
pub mod Reply
pub mod Kinds
pub mod Refusals
