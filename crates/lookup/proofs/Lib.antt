-- The laws of lookups.
pub mod Lookups
