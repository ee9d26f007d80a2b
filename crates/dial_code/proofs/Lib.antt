-- The laws of digit strings and keys.
pub mod Tests
pub mod DigitLaws
pub mod KeyLaws
pub mod Places
pub mod Gapless
pub mod KeyCode
pub mod SentKeys
pub mod CountedKeys
