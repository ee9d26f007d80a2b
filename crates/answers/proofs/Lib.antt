-- The laws of the answers.
pub mod EntryAnswers
