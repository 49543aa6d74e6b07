-- What only inner functions and their proofs speak of.
pub mod Letters
pub mod Places
pub mod Discovering
pub mod Loaded
