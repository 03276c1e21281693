-- Facts that the proofs cite.
pub mod LargestDecides
pub mod RefusingRows
pub mod AnsweringRows
