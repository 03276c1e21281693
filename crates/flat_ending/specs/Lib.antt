-- What the end of a flattening cites.
pub mod Order
