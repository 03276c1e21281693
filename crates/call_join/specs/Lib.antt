-- What joining works on.
pub mod Begun
