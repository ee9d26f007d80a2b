-- The rule of a line's status and rate.
pub mod TermsRule
