-- The pair search over two transducers. Inner holds what only inner functions and their proofs speak of.
pub mod Inner
