-- Facts that the functions' proofs share.
pub mod Reading
pub mod Progress
pub mod Turns
pub mod ModuleTurns
