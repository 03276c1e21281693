-- Facts that the proofs cite.
pub mod Going
pub mod Whole
