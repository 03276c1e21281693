-- Stages and kinds of bytes as numbers, and how far an atom goes.
pub mod Modes
pub mod Right
pub mod Ends
pub mod Codes
pub mod Kinds
