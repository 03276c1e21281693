-- What rests on how occurrences are renamed: files under other numbers answer alike.
pub mod Runs
pub mod Figures
pub mod Loads
pub mod Verdicts
pub mod Flat
pub mod Calls
pub mod Sizes
