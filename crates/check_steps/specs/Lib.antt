-- What the steps of the check of a file take and answer.
pub mod Found
pub mod Going
pub mod FileParts
