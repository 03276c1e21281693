-- Facts that the proofs cite.
pub mod OccurrenceParts
pub mod Laying
pub mod Judgement
pub mod Summing
pub mod Growing
pub mod Progress
pub mod OneMore
pub mod Advancing
pub mod Passing
pub mod Stepping
pub mod Walking
