-- Facts about lists that the functions' proofs share.
pub mod Filling
