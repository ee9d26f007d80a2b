-- The laws of parts of a slice.
pub mod Slices
pub mod Clauses
