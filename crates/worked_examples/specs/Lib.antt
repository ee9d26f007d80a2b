-- The notices of the worked examples.
pub mod Sent
