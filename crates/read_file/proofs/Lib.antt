-- Facts that the functions' proofs share.
pub mod Noting
pub mod Modules
pub mod Through
pub mod Answered
