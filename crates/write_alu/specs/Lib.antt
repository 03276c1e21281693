-- What the contracts of the ALU's writer cite, beside `meaning`.
pub mod Heads
