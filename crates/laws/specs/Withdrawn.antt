-- Four-input gates withdrawn (document 02, M-109): what rewriting a file keeps, and that the strict check passes what it gives.

-- The four gates and the gates that stand in their place; the new nets.
pub mod Kinds
pub mod Fresh
pub mod Suits
pub mod Enough
pub mod Same
pub mod Values
pub mod Counts
pub mod Delay
pub mod Bodies
pub mod Passes
pub mod Ceilings
pub mod Answered
pub mod Runs
pub mod Figures
pub mod Unchanged
pub mod Writers
