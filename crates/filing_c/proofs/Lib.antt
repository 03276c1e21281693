-- Lemmas that proofs share.
pub mod Reporting
