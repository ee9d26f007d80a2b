-- The laws of the standing list.
pub mod Passing
pub mod Turns
pub mod Validity
pub mod Answering
pub mod ReadsBack
pub mod Relisting
pub mod Relisted
