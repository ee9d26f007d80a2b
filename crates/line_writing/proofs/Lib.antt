-- The laws of a line's bytes.
pub mod LineLayoutLaws
pub mod LineBack
pub mod Encodable
pub mod LineSizes
