-- The laws of allowed codes.
pub mod CodeLaws
pub mod SentBack
pub mod SentCodes
