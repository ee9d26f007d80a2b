-- The laws of writing a notice, and that what is written reads back.
pub mod LayoutLaws
pub mod CountryCodes
pub mod NoticeBack
pub mod Sizes
