-- The papers' own grammar, to be read beside them.
pub mod Notation
pub mod Values
pub mod Papers
pub mod Page
-- What instances are made of.
pub mod ExampleTexts
-- The reader's moves, envelopes and header.
pub mod Moves
pub mod Envelopes
pub mod Reads
pub mod ReadBack
pub mod HeaderBack
-- Skip numbers, and what belongs to a row.
pub mod TreeSkips
pub mod Holding
