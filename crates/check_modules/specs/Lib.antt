-- What the functions on a module take and answer.
pub mod Heads
pub mod Modules
