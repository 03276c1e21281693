-- Lines of a text.
pub mod Lines
