pub mod Values
pub mod Sought
pub mod Forms
pub mod Lists
