-- The laws that the proofs of several functions share.
pub mod Feeding
pub mod Landing
pub mod Coding
pub mod Running
