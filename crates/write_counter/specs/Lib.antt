-- What the contracts of the counter's writer cite, beside `meaning`.
pub mod Shapes
