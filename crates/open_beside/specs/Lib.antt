-- A file made ready with its own numbers beside the image, and lists of zeros for that.
pub mod Beside
pub mod Rooms
