-- Facts that the proofs cite.
pub mod Told
pub mod Going
pub mod Blocks
pub mod Whole
