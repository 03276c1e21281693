-- What reading a part of a file comes to: the numbers that stand there, and the steps of reading one after the other.
pub mod Numbers
pub mod Spelled
pub mod Exact
pub mod Places
pub mod Single
pub mod Sound
pub mod Steps
pub mod Ways
pub mod Laid
pub mod Alike
pub mod Reached
pub mod Taken
pub mod Counted
pub mod Turns
