-- The laws of a line's code.
pub mod Codes
pub mod CodeTold
