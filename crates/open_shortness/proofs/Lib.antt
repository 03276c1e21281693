-- Facts that the proof cites.
pub mod SmallNumbers
