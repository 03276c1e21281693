-- What the contracts of `tally_engine` cite, and the law that turns them into what a file means.
pub mod Tallies
pub mod Rows
pub mod Answers
pub mod OfSite
