-- What the walk of a flattening asks.
pub mod Placeable
