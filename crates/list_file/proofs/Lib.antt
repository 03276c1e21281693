-- What the proofs of the listing share.
pub mod Sheets
pub mod Telling
pub mod LinesPut
