-- Facts that the proofs cite.
pub mod Rules
pub mod HeadNumbers
pub mod Turns
pub mod Settling
