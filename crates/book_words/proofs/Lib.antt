-- The laws of a book's words, and of entries put into them.
pub mod Rows
pub mod Places
pub mod BookWords
pub mod NewBook
pub mod Stores
