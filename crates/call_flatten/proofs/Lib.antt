-- What the proofs of flattening cite.
pub mod Measured
pub mod Asking
