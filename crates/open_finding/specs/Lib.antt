-- Where a module stands, and what a call on it rests on.
pub mod Here
pub mod Finding
pub mod Standing
pub mod OnImage
