-- Facts that the proofs cite.
pub mod Pairs
pub mod Climbs
