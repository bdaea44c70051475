-- The text of a lent table, what a piece of it is, and the law that the whole is the listing of document 01.
pub mod Text
pub mod Pieces
pub mod Promised
pub mod Listed
pub mod Stages
pub mod Cursors
