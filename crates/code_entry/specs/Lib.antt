-- The rules of a range of codes and of one entry of a cell. Scan is a model, of how an entry is read: no public contract cites it.
pub mod Codes
pub mod Range
pub mod Entry
pub mod Scan
