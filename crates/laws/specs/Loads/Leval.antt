-- The load is that of LEVAL of document 000.

-- Its association lists, what it does with the occurrences of a module, and what it gives for a module.
pub mod Alist
pub mod Body
pub mod Same
