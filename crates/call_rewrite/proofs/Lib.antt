-- Facts that the proofs cite.
pub mod Longer
pub mod Suiting
pub mod Tables
pub mod Answering
