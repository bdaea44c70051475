-- What the promises of this crate cite.
pub mod Frames
pub mod Counts
