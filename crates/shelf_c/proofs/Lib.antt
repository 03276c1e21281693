-- From the library's answers to the numbers that a C caller gets.
pub mod Reporting
