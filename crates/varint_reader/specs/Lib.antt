-- The rule of a reader that gives numbers one by one.
pub mod Standing
