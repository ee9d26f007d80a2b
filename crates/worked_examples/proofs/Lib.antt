-- The worked examples of document 01.
pub mod Entries
pub mod Examples
pub mod Applies
