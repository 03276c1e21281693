-- What the line names.
pub mod Named
