-- Facts that the proofs cite.
pub mod Naming
