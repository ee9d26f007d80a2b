-- The rule of a notice's marks.
pub mod Marks
