-- The rules of rating one call.
pub mod Call
