-- What the contracts of the fast adder's writer cite, beside `meaning`.
pub mod Heads
