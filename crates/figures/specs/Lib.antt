-- What the promises of this crate cite.
pub mod Stages
pub mod Promises
