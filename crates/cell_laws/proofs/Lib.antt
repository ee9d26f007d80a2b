-- The laws of cells.
pub mod CellKeys
pub mod EntryByEntry
pub mod CountryDigits
