-- What the contracts of `rewrite_counts` cite, and the laws that turn them into what a file means.
pub mod Fours
pub mod Ceilings
