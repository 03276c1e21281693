-- What the contracts of `rewrite_bytes` cite.
pub mod Used
pub mod Bodies
pub mod Modules
