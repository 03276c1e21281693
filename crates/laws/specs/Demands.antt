-- The three demands, a file each, a theorem for each sentence.
pub mod First
pub mod Second
pub mod Third
-- Words that they use beside those of the definitions.
pub mod Terms
-- What their proofs need beside the other laws: what the rules name for a call; runs on known bits, and of a flattened file; and the
-- written files.
pub mod Naming
pub mod Bits
pub mod KnownRuns
pub mod FlatRuns
pub mod Writers
