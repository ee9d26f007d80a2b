-- The rules of the book: soundness, statuses, and what keeps it from being used.
pub mod Soundness
pub mod Status
pub mod Answers
