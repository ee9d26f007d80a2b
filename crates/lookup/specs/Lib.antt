-- The answer to a number.
pub mod Lookup
