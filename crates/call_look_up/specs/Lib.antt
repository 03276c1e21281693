-- What is found of a number in one file and in two.
pub mod Seeking
pub mod Looking
