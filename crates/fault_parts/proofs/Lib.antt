-- Facts that the proofs cite.
pub mod Marking
pub mod Placing
pub mod Seeking
