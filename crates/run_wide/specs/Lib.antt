-- What the contracts of `run_wide` cite, and the law that each row of a wide run is the row's own run.
pub mod Wide
pub mod WideMeans
