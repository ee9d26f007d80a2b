-- The rules of the longest match and of the search by halving.
pub mod Match
pub mod Search
