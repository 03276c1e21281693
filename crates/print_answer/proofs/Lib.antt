-- Facts that the functions' proofs share.
pub mod Fits
