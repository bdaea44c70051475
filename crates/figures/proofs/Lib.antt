-- The laws that the proofs of several functions share.
pub mod Judging
pub mod Raising
pub mod Bounds
pub mod Answers
pub mod Entries
pub mod Reporting
