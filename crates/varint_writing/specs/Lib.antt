-- The rules of writing numbers in groups of seven bits.
pub mod Writing
