-- A file made ready for calls: the lists to work in, what stands in them, how it comes to stand there, and what that says of a call.
pub mod Prepared
pub mod Spaces
pub mod ReadyFile
pub mod Opening
