-- What the library's answers rest on.
pub mod Answering
