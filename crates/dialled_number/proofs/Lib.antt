-- The laws of numbers' keys.
pub mod Spelling
pub mod SentNumbers
