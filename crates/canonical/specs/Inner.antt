-- What only inner functions and their proofs speak of.
pub mod Quotients
pub mod Normal
