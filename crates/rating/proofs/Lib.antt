-- The laws of rating one call.
pub mod Calls
pub mod Examples
