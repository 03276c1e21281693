-- Facts that the proofs cite.
pub mod Works
pub mod Refusing
pub mod Opened
