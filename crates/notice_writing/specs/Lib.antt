-- The rules of writing a notice.
pub mod Layout
