-- What the contracts of `run_times` cite.
pub mod Times
