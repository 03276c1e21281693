-- Files that differ in their numbers only. That they answer alike is in proofs/.
pub mod Renamed
pub mod Nets
pub mod Searches
pub mod Runs
pub mod Figures
pub mod Loads
pub mod Verdicts
pub mod Flat
pub mod Calls
pub mod Sizes
