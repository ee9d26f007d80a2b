-- The rules of country codes, and of words with the same first three places.
pub mod CountryCode
pub mod Stretches
