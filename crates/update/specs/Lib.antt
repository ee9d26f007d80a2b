-- How applying a notice divides its work. No public contract cites these: the rules are those of the crate history.
pub mod Plans
pub mod NewBooks
