-- The rules of reading numbers in groups of seven bits.
pub mod Reading
pub mod Ranged
