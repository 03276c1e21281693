-- Lemmas that proofs share.
pub mod Bits
pub mod Parts
pub mod Masking
pub mod Calling
pub mod Adding
pub mod Blocks
pub mod Tallying
pub mod OneWord
pub mod Deciding
pub mod Places
