-- The rule of a line's bytes.
pub mod LineLayout
