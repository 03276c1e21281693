-- A tree of names, and the numbers given to them.
pub mod Tree
pub mod Searching
pub mod Growing
pub mod Hanging
pub mod Roots
pub mod Walking
pub mod Numbers
pub mod Giving
pub mod Needs
pub mod Along
pub mod Capitals
pub mod Steps
pub mod Entering
