-- Facts that the proofs cite.
pub mod SmallValues
pub mod Refusing
pub mod Running
pub mod Answering
