-- The laws of days and moments.
pub mod Times
