-- The rule of a cell of codes, with rising lists. Count has what the passes over a cell find: no public contract cites it.
pub mod Cell
pub mod Rising
pub mod Count
pub mod Reading
