-- What rests on how occurrences are listed and on where numbers without a place come: a text that is printed is read back.
pub mod InGrammar
pub mod Behind
pub mod Numbers
pub mod ReadBack
pub mod Fits
pub mod RoundTrip
