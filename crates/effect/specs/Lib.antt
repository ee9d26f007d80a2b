-- What a notice asks of its lines, as the passes over a book work it.
pub mod Lines
