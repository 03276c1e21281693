-- What it means that a file is short.
pub mod Shortness
