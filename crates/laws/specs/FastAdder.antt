-- The propagate-generate adder of width n (request M-104). Each fact is proved once over the width, and what it computes over any shape.

-- What the check lets pass: each net is driven once, and taken only afterwards.
pub mod Runs
pub mod Signals
pub mod Passing
pub mod Wiring
pub mod GateRows
pub mod Bodies
-- What it computes: its nets satisfy equations, by which its carries are those of the ripple adder, on three values.
pub mod Equations
pub mod Looks
pub mod RowEquations
pub mod Ahead
pub mod Lattice
pub mod Carries
pub mod BitCarries
pub mod Adder
pub mod Shape
pub mod Outputs
-- Its figures: what is counted, the delay, the load.
pub mod Counting
pub mod Figures
pub mod Times
pub mod Grown
pub mod Doubling
pub mod Delay
pub mod Hits
pub mod OneNet
pub mod Lean
pub mod TreeLoad
pub mod FirstLoad
pub mod Load
-- Its file: that it can be written and read, that the check accepts it, and what runs of it come to.
pub mod Accepted
pub mod Numbers
pub mod File
pub mod Calls
pub mod Written
-- What is printed of it.
pub mod Rows
