-- Names as they stand in a text.
pub mod Seeking
pub mod Brackets
pub mod Atoms
pub mod Listed
pub mod Named
