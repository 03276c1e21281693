-- What the C face hands back.
pub mod Results
pub mod TwoFiles
