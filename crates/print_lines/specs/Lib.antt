-- What the contracts cite, beside the definitions.
pub mod Parts
pub mod Standing
