-- The rules of rating a batch of calls.
pub mod Batch
