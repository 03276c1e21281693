-- What the contracts of `load_steps` cite.
pub mod Steps
