-- Facts that the proofs cite.
pub mod Entries
pub mod Walking
pub mod Beginning
