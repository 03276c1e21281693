-- What the contracts of `run_engine` cite, and the laws that turn them into what a file means.
pub mod Slots
pub mod Calls
pub mod Mapped
pub mod Evaluating
pub mod Arriving
pub mod Loading
