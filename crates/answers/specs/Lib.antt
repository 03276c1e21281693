-- What each answer means in the numbers of the scope, and what a call that gives it leaves in lent buffers.
pub mod Answers
pub mod Settled
pub mod Running
pub mod Contents
pub mod Judged
