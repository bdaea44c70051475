-- What the promises of this crate cite, and the laws of its answers that a caller cites.
pub mod Stages
pub mod Answers
pub mod Coded
pub mod Digits
pub mod Numbers
pub mod Counting
pub mod Blocks
