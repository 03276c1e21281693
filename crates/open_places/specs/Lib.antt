-- Where the modules of a file stand in it, and their bytes there.
pub mod Places
pub mod Parts
pub mod Ends
