-- What is marked and gathered.
pub mod Marks
pub mod Gathering
