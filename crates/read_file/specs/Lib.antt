-- What reading a file answers and leaves, and what follows for whoever reads one.
pub mod Starts
pub mod Answer
pub mod Placed
pub mod Held
pub mod Noted
