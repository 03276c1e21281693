-- Facts that the proofs cite.
pub mod Bytes
pub mod Stored
pub mod Largest
