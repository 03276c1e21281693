-- What writing text asks and leaves.
pub mod Digits
pub mod Pieces
pub mod Rows
pub mod Lines
