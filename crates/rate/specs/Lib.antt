-- The rules of rates, offers and offer words.
pub mod Price
pub mod OfferWord
