-- The rules of digit strings and their keys.
pub mod Digits
pub mod Key
