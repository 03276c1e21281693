-- What can be asked of a file, and what is promised of the answer.
pub mod Asks
