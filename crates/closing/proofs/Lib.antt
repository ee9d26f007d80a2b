-- The laws of closings.
pub mod ClosingLaws
