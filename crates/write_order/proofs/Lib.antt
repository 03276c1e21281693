-- Facts that the functions' proofs share.
pub mod Answering
pub mod Promise
