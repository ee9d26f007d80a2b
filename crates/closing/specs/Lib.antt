-- What a notice asks of the codes that it does not list, as the passes over a book work it.
pub mod Closings
