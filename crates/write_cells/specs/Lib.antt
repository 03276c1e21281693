-- What the contracts cite, beside `meaning`.
pub mod Lists
