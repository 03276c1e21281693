-- What the calls answer, and what they rest on.
pub mod Answers
pub mod Figuring
