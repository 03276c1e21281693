-- Facts that the functions' proofs share.
pub mod Digits
pub mod PartNumbers
pub mod Running
pub mod Parting
pub mod CounterFile
