-- The headline laws of the leaf crates, a file for each.
pub mod Varint
pub mod DialCode
pub mod CountryCode
pub mod Rates
