-- The laws of one line of a notice.
pub mod LineLaws
