-- What the contracts of `run_walk` cite: what a run works out for each net, and what running a module asks and answers.
pub mod Work
pub mod Ruling
pub mod Valuing
pub mod Running
pub mod Outputs
