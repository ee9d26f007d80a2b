-- The rules of the fields before the lines. No public contract cites Placed, what a reader gave with its place.
pub mod HeaderRule
pub mod Placed
