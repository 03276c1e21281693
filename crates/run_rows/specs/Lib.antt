-- What the contracts of `run_rows` cite, and the laws behind them.
pub mod Joined
pub mod Giving
pub mod Running
pub mod Rows
pub mod Turning
