-- The desk, and what is known at each stage.
pub mod Desk
pub mod Known
pub mod On
pub mod Signs
pub mod Closing
pub mod Atoms
pub mod Limits
pub mod Ready
pub mod Paper
