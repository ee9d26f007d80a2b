-- The refusals: their numbers, and how one ends a chain of steps.
pub mod Refusal
pub mod Steps
