-- The entries of a new book, part by part.
pub mod Passes
