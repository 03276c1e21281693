-- Loads in the written counter, once over the width.

-- Nets numbered one after the other.
pub mod Runs
-- The blocks, from level to level.
pub mod Block
pub mod BlockMost
pub mod Blocks
-- Module 32, from part to part.
pub mod Part
pub mod Parts
pub mod Largest
