-- From the numbers of a text to its file.
pub mod Filing
pub mod Sizes
pub mod Delivers
