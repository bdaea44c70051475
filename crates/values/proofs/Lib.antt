-- The laws that the proofs of several functions share.
pub mod Tables
pub mod Texts
pub mod Numbers
pub mod Blocks
pub mod Masks
