-- What joining answers, and the joined file before and behind its count.
pub mod Joins
pub mod Assembling
