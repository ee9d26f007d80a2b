-- The rules of a book's words.
pub mod Layout
