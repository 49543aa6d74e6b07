-- What only inner functions and their proofs speak of.
pub mod Forms
pub mod Paths
pub mod Shown
pub mod Other
pub mod Bottoms
