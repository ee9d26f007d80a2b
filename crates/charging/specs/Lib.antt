-- The rules of charging.
pub mod Charging
