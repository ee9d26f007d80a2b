-- The model of read_number's loop, laws on groups, a number against a range, and what reading tells.
pub mod Model
pub mod Groups
pub mod Values
pub mod Refusals
pub mod Links
pub mod Ranges
pub mod Laws
pub mod Told
