-- What the encoder's contracts cite, beside `meaning`, and how a buffer is filled by numbers that are put one behind the other.
pub mod Filled
pub mod Puts
pub mod Laying
pub mod Sizes
pub mod Writing
