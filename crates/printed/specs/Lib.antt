-- Printing a file and reading the text back: what is said of it. proofs/ has what rests on how a file is listed and numbered.
pub mod Listed
pub mod Words
pub mod InGrammar
pub mod Behind
pub mod Numbers
pub mod ReadBack
pub mod Few
pub mod Fits
pub mod RoundTrip
