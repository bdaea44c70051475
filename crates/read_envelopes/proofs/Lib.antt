pub mod Frames
pub mod Envelopes
pub mod Turns
pub mod Cut
