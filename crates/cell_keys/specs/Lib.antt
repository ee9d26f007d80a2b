-- The answer to the call over one entry. Writing is a model, of how keys are written: no public contract cites it.
pub mod Answers
pub mod Writing
