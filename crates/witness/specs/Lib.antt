-- A shown difference of two transducers: Difference is what the entry points that show one promise of it. Inner holds what only inner functions and their proofs speak of.
pub mod Difference
pub mod Inner
