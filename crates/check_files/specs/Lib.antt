-- What the check of a file takes and answers.
pub mod Files
