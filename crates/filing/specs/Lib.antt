-- What words and sequences come to, and the laws of it.
pub mod Laying
pub mod Reading
pub mod Running
pub mod Placing
