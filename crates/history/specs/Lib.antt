-- The rules of effective days, change days and the plain machine.
pub mod Effect
pub mod ChangeDays
pub mod Machine
pub mod Applying
pub mod Claim
