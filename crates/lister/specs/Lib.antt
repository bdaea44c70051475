-- What the listing programs' body promises.
pub mod Promise
