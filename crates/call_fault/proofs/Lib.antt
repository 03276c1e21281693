-- Facts that the proofs cite.
pub mod Numbers
pub mod Texts
