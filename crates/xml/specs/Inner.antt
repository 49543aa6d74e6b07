-- What only inner functions and their proofs speak of.
pub mod Tags
pub mod Walk
pub mod Measured
pub mod Kinds
