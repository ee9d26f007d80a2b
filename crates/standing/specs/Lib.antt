-- What stands on a day, entry by entry.
pub mod Pass
