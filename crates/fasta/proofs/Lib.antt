-- Lemmas that proofs share.
pub mod Summing
pub mod Filling
pub mod Filing
pub mod Stepping
