-- What evaluation promises.
pub mod Evaluates
