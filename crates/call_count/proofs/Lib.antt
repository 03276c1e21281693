-- What the proofs of a count share.
pub mod Engines
pub mod RoomThere
pub mod Outcomes
