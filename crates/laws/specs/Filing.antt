-- Laws of filing.
pub mod Words
pub mod Sequences
pub mod Tables
pub mod Counting
pub mod Answers
