-- What the contracts cite, beside `meaning`.
pub mod Parts
pub mod Standing
