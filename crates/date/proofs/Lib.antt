pub mod Days
pub mod Dates
