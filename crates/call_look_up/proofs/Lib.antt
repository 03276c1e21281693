-- Facts that the proofs cite.
pub mod Seeks
pub mod Looks
