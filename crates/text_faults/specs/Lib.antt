-- What is at fault in a module of a text.
pub mod Faults
pub mod Body
pub mod Breaking
pub mod FrontLaws
pub mod First
pub mod Located
pub mod OfText
