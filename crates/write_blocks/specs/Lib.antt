-- The numbers of blocks and of choices, piece by piece.
pub mod Choices
pub mod BlockNumbers
