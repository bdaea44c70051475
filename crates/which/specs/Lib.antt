pub mod Promise
pub mod Allowing
