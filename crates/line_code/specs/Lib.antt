-- The rule of a line's code.
pub mod CodeRule
