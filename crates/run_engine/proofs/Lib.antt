-- Facts that the functions' proofs share.
pub mod Front
pub mod Entering
pub mod Answers
