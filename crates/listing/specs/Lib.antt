-- The rules of the standing list.
pub mod List
