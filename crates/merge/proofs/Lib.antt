-- The laws of the merge: the passes over entries one at a time, the whole, and how many entries it comes to.
pub mod PassLaws
pub mod Merging
pub mod MergedMost
