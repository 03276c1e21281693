-- What the contracts cite, beside `meaning`.
pub mod Digits
pub mod Apart
