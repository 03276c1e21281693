-- Facts that the functions' proofs share.
pub mod CellNumbers
pub mod Modules
