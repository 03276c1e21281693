-- Facts that the functions' proofs share.
pub mod Walking
pub mod Deciding
pub mod Filling
