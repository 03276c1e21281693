-- Facts that the proofs cite.
pub mod Spelling
pub mod Lists
