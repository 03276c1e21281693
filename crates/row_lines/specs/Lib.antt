-- What a text of rows is, and what is made of it.
pub mod Words
pub mod Lines
pub mod Blocks
pub mod Digits
pub mod Spaces
