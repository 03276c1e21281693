-- Laws of the figures of a module (document 01, 'What a module means').

-- Sums over the gates reached: the sum of the tally is the gate count.
pub mod Weights
pub mod Tally
-- What delay is at most, and what number types need.
pub mod Delay
pub mod Reached
pub mod Bounds
