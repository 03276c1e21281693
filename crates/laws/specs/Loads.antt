-- Laws of load (document 01, 'What a module means'; request M-101 of document 02).

-- It depends only on the modules from the named one on; it is never below the figure before the request; the request's example.
pub mod Suffix
pub mod Before
pub mod Example
-- Loads at places.
pub mod Places
-- It is that of the flattened module, so it is at most four times the gate count.
pub mod Flat
pub mod Bounds
-- It is that of document 000.
pub mod Leval
-- What the written adders and counters have.
pub mod Adder
pub mod Counter
