pub mod Dates
pub mod DateSteps
