-- What a block of rows promises.
pub mod Blocks
