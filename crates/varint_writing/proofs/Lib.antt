-- What writing several numbers comes to.
pub mod Writes
