-- Refusals 1 to 5 by what they mean: reading stops at what is unreadable,
pub mod Stops
-- and at nothing else,
pub mod Refusing
pub mod Numbers
pub mod Things
-- and says where.
pub mod Exactly
