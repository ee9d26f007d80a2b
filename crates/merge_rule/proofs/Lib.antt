-- The laws of a new book's entries.
pub mod PassCases
pub mod PassKeys
pub mod Beyond
pub mod GapStatus
pub mod GroupStatus
pub mod MergedStatus
pub mod MergedSound
pub mod MergedLength
pub mod Examples
