-- Listings for the board maker: under one list of good names the text determines the file, and how long it can be.

-- What a text begins with, taken off its front.
pub mod Spans
pub mod Numerals
pub mod Names
pub mod References
pub mod Nets
pub mod Modules
-- The two laws of the request.
pub mod Determined
pub mod Answered
pub mod Long
