pub mod Rooms
pub mod Others
pub mod Choosing
pub mod Represented
pub mod Insides
