-- Laws of entries of a cell.
pub mod Scanning
pub mod Counting
pub mod CodeTests
pub mod Ranges
pub mod Entries
pub mod EntryLaws
