-- The theorems of the plain machine and the book.
pub mod ChangeLaws
pub mod Keeping
pub mod Books
pub mod Theorem
pub mod Outside
pub mod Space
pub mod Corollaries
