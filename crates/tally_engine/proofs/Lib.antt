-- Facts that the proofs of this crate cite, and those of crates that count gates besides.
pub mod KeptRows
pub mod Counts
pub mod Counting
