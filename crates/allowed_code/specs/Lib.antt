-- The rules of allowed codes.
pub mod Code
