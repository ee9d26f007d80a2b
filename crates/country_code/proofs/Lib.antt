-- The laws of country codes and of stretches.
pub mod CountryLaws
pub mod StretchLaws
