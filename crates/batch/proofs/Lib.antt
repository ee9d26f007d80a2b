-- The laws of rating a batch of calls.
pub mod Records
pub mod Rows
pub mod MostCharged
pub mod BatchTests
pub mod BatchLaws
