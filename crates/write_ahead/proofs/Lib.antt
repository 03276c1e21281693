-- Facts that the functions' proofs share.
pub mod Smalls
pub mod Pieces
pub mod Nodes
pub mod Cuts
pub mod Chains
pub mod AheadBytes
