-- The theorems: edits of the grammar in specs/ are refused by them.
-- The reader's tests of values, and instances, derived.
pub mod Texts
pub mod Dates
pub mod Examples
pub mod Simple
pub mod Aspects
pub mod EveryParameter
pub mod EverySlot
-- From the papers' rules to the reader's moves.
pub mod Walks
pub mod Walked
-- And back.
pub mod Pieces
pub mod Chains
pub mod AgentCuts
pub mod ObjectCuts
pub mod Chained
-- Envelopes and headers.
pub mod Headed
pub mod Header
pub mod Jumbo
-- Skip numbers, and that bytes have one tree.
pub mod Nesting
pub mod Nested
pub mod Laid
pub mod OneTree
-- The theorems of reading and writing.
pub mod Same
pub mod WritesTrees
-- Order 9 over both papers; orders 7, 6 and 1, read off the trees.
pub mod BothPapers
pub mod Held
pub mod OrderSeven
pub mod Children
pub mod ByTrees
pub mod PresentTrees
