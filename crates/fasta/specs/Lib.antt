-- The records of a file of bases, what they come to, and the file read byte by byte.
pub mod Records
pub mod Sums
pub mod Steps
pub mod Whole
