-- The laws of books: their words, soundness and statuses.
pub mod Rules
pub mod Headers
pub mod FreshBooks
pub mod SoundLists
pub mod Statuses
pub mod Usable
pub mod SoundBooks
pub mod Unique
