-- What the contracts of `flattener` cite, and the laws that turn them into what `meaning` says of flattening.
pub mod Placing
pub mod PlacingMeans
pub mod Growing
pub mod AtPosition
pub mod FlatFrames
pub mod Runs
pub mod Plan
pub mod Flat
pub mod FlatBytes
