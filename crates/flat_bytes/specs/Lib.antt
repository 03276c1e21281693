-- What the contracts of `flat_bytes` cite.
pub mod Slots
pub mod Gates
pub mod Front
