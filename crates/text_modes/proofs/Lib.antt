-- Lemmas for the proofs of this crate.
pub mod Bytes
