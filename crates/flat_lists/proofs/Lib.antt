-- Facts that the functions' proofs share.
pub mod Engine
pub mod Walked
