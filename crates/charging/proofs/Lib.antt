-- The laws of charges.
pub mod Charges
