-- Refusals.
pub mod Refused
