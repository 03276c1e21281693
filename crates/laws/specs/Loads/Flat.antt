-- The largest load of a flattened module is the module's.

-- Loads of the signals that stand for one net of a board, and loads on the board when something is placed on it.
pub mod Through
pub mod Board
-- A walk over the occurrences of a module, from one occurrence to the next.
pub mod Walk
pub mod Step
pub mod Further
-- The modules of a list, and the flattened module.
pub mod Placing
pub mod Same
-- The call.
pub mod Answered
