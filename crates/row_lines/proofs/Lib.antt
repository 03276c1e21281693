-- Facts that the proofs cite.
pub mod Values
pub mod Places
pub mod Putting
pub mod Feeds
pub mod Rows
pub mod Taking
pub mod Texts
pub mod Promise
pub mod Moving
