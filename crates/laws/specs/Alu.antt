-- The ALU of width n (request M-110). Each fact is proved once over the width.

-- What the check lets pass: each net is driven once, and taken only afterwards.
pub mod Signals
pub mod Copies
pub mod Occurrences
pub mod Bodies
-- What it computes: its nets satisfy equations.
pub mod Lines
pub mod Cells
pub mod Nets
pub mod Worth
pub mod Sums
pub mod Table
pub mod Bits
pub mod Quiet
pub mod Answers
pub mod Sixteen
pub mod Outputs
-- Its figures.
pub mod Figures
-- Its file: that it can be written and read, that the check accepts it, and what runs of it come to.
pub mod Accepted
pub mod Times
pub mod Delay
pub mod Numbers
pub mod File
pub mod Written
-- What is printed of it.
pub mod Rows
