-- What the contracts on trees cite, beside `meaning`.
pub mod Trees
