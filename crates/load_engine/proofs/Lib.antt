-- Facts that the proofs of this crate cite.
pub mod KnownRows
pub mod Loading
pub mod LoadSteps
pub mod GateLoads
pub mod ModuleLoads
pub mod KeptLoads
pub mod MoreLoads
