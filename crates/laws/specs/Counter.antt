-- The written leading-zero counter of width n (docs/COUNTER.md). Each fact is proved once over the width, by induction over its levels
-- and digits.

-- What it makes of values of any kind: a law that its blocks and parts keep.
pub mod Nets
pub mod Digits
pub mod Numbered
pub mod Law
pub mod Choice
pub mod Join
pub mod Blocks
pub mod Part
pub mod Parts
pub mod Lawful
-- What it computes: the zeros above the highest 1, known as soon as they can be.
pub mod Leading
pub mod Values
pub mod Zeros
pub mod Outputs
-- Its figures.
pub mod Figures
pub mod Levels
pub mod Totals
pub mod Reached
pub mod Every
pub mod Narrow
pub mod Delay
pub mod Late
-- Its file.
pub mod Lengths
pub mod Low
pub mod Numbers
pub mod Signals
pub mod ChoiceOk
pub mod ReferenceOk
pub mod BlocksOk
pub mod PartsOk
pub mod Accepted
pub mod File
-- What is printed of it.
pub mod Widths
pub mod Table
pub mod Rows
