-- What the functions on lists of nets answer, and what the table of slots says.
pub mod Slots
pub mod Booleans
pub mod Members
pub mod Walks
pub mod Bounds
pub mod Writing
pub mod Fronts
pub mod SlotLaws
pub mod Tables
