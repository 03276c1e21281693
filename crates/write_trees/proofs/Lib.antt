-- Facts that the functions' proofs share.
pub mod Shapes
pub mod Heights
