-- Flattening (document 01, 'Flattening'): the flattened module of a module of an accepted file is the same module.

-- It gives the same outputs: flattening is evaluation with nets for values, and the nets stand for the values.
pub mod Numbered
pub mod Matching
pub mod Walk
pub mod Values
-- It has the same gates.
pub mod Counts
-- Its shape: each gate drives the next number, and the outputs are driven nets, all different.
pub mod Wired
pub mod Environments
pub mod Distinct
pub mod Shape
pub mod Same
-- So the check accepts its file, and flattening it again gives it back.
pub mod Accepted
pub mod Bytes
pub mod Within
pub mod Again
-- The call.
pub mod Answered
