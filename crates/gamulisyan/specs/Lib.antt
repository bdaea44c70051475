-- The version that the archive answers.
pub mod Version
