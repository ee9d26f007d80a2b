-- The laws of the fields before the lines.
pub mod Countries
pub mod HeaderLaws
