-- The laws of applying a notice: its plan and marks, that the merge leaves the new book's entries, and the answers.
pub mod PlanLaws
pub mod Marks
pub mod NewEntries
pub mod Answering
