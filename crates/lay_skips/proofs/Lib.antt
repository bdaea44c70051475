pub mod Running
pub mod Turning
pub mod Pushing
pub mod Finishing
