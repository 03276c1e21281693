-- Facts that the functions' proofs share.
pub mod Stamping
pub mod Seeking
pub mod Marking
pub mod Putting
pub mod Modules
