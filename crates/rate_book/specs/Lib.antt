-- The words of a book, and days and moments as numbers.
pub mod Exported
