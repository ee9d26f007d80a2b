-- The merge as a whole.
pub mod Merge
