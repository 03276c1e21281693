-- What the contracts of `load_engine` cite, and the laws that turn them into what a file means.
pub mod Loads
pub mod Ordered
pub mod Answers
