-- The laws of the search and of the longest match.
pub mod Halving
pub mod Matching
pub mod Examples
