-- What the writers' contracts cite, beside `meaning`.
pub mod Orders
