-- What only inner functions and their proofs speak of.
pub mod Walked
pub mod Tables
