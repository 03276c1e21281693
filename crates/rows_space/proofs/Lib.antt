-- What the proof of the pick cites.
pub mod Resizing
