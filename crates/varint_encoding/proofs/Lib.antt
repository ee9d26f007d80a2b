-- Laws on groups, of a number's bytes, and of several numbers'.
pub mod Groups
pub mod Standing
pub mod Laws
pub mod Several
