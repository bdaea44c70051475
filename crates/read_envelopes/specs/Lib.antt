-- What the promises of this crate cite.
pub mod Envelopes
pub mod Headers
