-- Laws of writing keys.
pub mod Steps
pub mod Merges
pub mod Turns
pub mod Puts
pub mod Ones
pub mod Writes
pub mod Backward
