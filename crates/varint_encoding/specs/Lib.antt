-- The rules of numbers' bytes.
pub mod Encoding
pub mod Several
