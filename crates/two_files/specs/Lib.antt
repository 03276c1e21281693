-- Whose file a refusal is about.
pub mod Whose
