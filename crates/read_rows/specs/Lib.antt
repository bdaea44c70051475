-- What the promises of this crate cite, and how a caller puts answers together.
pub mod Stages
pub mod Joining
