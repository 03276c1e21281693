-- What the contracts of `gates` cite, and the law by which another crate's fold over the arguments is a gate's value.
pub mod Kind
pub mod ThreeValues
pub mod Tables
pub mod Folds
pub mod Folding
pub mod Rules
pub mod Gates
