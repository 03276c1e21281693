-- The sums over a module's references, the tables that keep its figures, and why those are the figures of the file.
pub mod Walks
pub mod Kept
pub mod Measured
pub mod Behind
pub mod Referred
pub mod SizeRule
pub mod Measuring
