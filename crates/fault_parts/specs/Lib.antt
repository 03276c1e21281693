-- Parts of the search for a fault.
pub mod Fronts
pub mod Asked
