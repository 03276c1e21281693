-- What the C face reads off the library's answers.
pub mod Read
