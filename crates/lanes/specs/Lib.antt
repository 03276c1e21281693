-- What the contracts of `lanes` cite, and the laws behind them.
pub mod Bits
pub mod Lanes
pub mod Words
pub mod Rows
pub mod Giving
pub mod Entries
pub mod Feeding
pub mod Groups
pub mod Wording
pub mod Laning
pub mod Storing
pub mod Blocks
