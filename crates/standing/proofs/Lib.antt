-- The laws of what stands.
pub mod Sizes
pub mod Counted
