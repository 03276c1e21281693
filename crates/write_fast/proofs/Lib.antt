-- Facts that the functions' proofs share.
pub mod RowNumbers
pub mod FastBytes
