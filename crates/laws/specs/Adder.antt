-- The written adder of width n (document 01, 'Written modules'). Each fact is proved once over the width.

-- What it computes: a chain of full adders, so on known bits the binary sum with carry, and its lowest bits early.
pub mod Nets
pub mod Ripple
pub mod Outputs
pub mod Sum
pub mod Early
-- Its figures.
pub mod Figures
pub mod Delay
-- Its file: the numbers and bytes of it, that they can be written and read, and that the check accepts it.
pub mod Numbers
pub mod Bytes
pub mod Distinct
pub mod Accepted
pub mod ByTest
pub mod File
-- What is printed of it.
pub mod Rows
