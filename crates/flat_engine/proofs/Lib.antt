-- Facts that the functions' proofs share.
pub mod Filling
pub mod Progress
pub mod Turns
pub mod ModuleTurns
pub mod FlatPlan
pub mod FlatDone
