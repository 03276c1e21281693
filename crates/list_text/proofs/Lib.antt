-- Facts that the proofs cite.
pub mod Spelling
pub mod Pieces
pub mod Rows
pub mod Numbers
pub mod Lines
