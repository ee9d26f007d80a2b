-- The laws of a whole notice.
pub mod LinesLaws
pub mod NoticeLaws
pub mod Scanning
pub mod Checking
pub mod LinesAgain
