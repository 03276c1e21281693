-- Room for a piece, what a module's head is, and pieces that are laid one behind the other.
pub mod Rooms
pub mod Gates
pub mod Heads
pub mod HeadNumbers
pub mod Laying
pub mod Encoding
pub mod Runs
