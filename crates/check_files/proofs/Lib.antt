-- Facts that the proofs cite.
pub mod FileEnds
pub mod FileStart
