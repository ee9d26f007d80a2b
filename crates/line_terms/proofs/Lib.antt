-- The laws of a line's status and rate.
pub mod TermsLaws
