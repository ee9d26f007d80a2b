-- What the exported calls answer, as structs of numbers.
pub mod Answers
