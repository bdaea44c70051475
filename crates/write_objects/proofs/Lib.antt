pub mod Rooms
pub mod Turning
pub mod Receiving
