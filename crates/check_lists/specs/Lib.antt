-- What the functions on lists, references and numbers of modules take and answer, and what is known of a module's place.
pub mod Filed
pub mod Numbering
pub mod Numbers
pub mod Later
pub mod References
pub mod Scene
pub mod Lists
pub mod Parts
pub mod Places
