-- What listing a file asks.
pub mod Sheet
