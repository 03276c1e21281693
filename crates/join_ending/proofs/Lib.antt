-- Facts that the proofs cite.
pub mod Delivers
pub mod Assembles
