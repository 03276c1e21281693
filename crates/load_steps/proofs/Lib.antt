-- Facts that the proofs cite.
pub mod Placing
pub mod Insides
pub mod Keeping
