pub mod Frames
pub mod Counting
