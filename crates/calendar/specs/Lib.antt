-- The rules of days and moments.
pub mod Time
