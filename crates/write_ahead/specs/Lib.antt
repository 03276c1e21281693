-- What the contracts of the look-ahead's writer cite, beside `meaning`.
pub mod Carries
pub mod Laid
