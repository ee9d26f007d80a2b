-- What the laws of cells are told in.
pub mod Names
pub mod Entries
pub mod Prefixed
