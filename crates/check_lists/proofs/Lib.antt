-- Facts that the proofs cite.
pub mod Filling
pub mod Targets
pub mod Listing
