-- What the strict check and the rewriting rest on once a file is opened.
pub mod Standing
pub mod Growing
