-- The rules of numbers' keys.
pub mod NumberKey
