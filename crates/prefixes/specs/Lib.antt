-- Largest common prefixes. Inner holds what only inner functions and their proofs speak of.
pub mod Inner
