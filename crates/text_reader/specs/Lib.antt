-- Reading a text to the numbers of its file.
pub mod Parse
pub mod Standing
pub mod Parts
pub mod Dict
pub mod Reading
pub mod Refusing
pub mod Turning
pub mod Gating
pub mod Atoming
pub mod Loop
