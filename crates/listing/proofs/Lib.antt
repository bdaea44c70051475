-- The laws that the proofs of several functions share.
pub mod Written
pub mod Pieces
pub mod Answers
