-- Facts that the proofs cite.
pub mod Rules
pub mod Repeats
pub mod Going
pub mod FileWalk
pub mod FileSteps
pub mod FileTurn
