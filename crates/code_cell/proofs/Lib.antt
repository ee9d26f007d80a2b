-- The laws of rising keys and of cells.

pub mod Inserts
pub mod RangeKeys
pub mod Members
pub mod Marks
pub mod Scans
pub mod Names
pub mod Walks
pub mod Decisions
pub mod Bounds
pub mod Looks
pub mod Refusals
pub mod Orders
