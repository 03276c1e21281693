-- What the functions on occurrences take and answer.
pub mod Occurrences
pub mod Bodies
