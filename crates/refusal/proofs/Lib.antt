-- Laws of readings, and of the refusals' numbers.
pub mod ReadParts
pub mod Told
pub mod Numbers
