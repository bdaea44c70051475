-- The instances, each table of them under one theorem: edits of the definitions in specs/ are refused by them.
pub mod Instances
pub mod LimitCases
pub mod Bounds
pub mod Between
