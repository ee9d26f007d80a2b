-- The rule of one line of a notice.
pub mod LineRule
