-- The rules of a whole notice, and of its lines read again one by one.
pub mod NoticeRule
pub mod Lines
