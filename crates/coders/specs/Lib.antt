pub mod Decimal
pub mod Plain
pub mod Stepped
