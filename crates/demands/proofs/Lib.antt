-- The demands of document 01 that are theorems, and those of document 02, stated again in full.
pub mod DemandTwo
pub mod DemandThree
pub mod BookLaws
pub mod Cells
