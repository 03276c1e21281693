-- A text becomes a file.
pub mod Rooms
