-- Facts that the proofs cite.
pub mod Marked
pub mod Going
