-- The laws of rates and offer words.
pub mod Prices
pub mod Words
