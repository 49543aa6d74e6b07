-- A transducer as a table: the trees over an input alphabet as those of a grammar, and what is answered where a form is written. Inner holds what only inner functions and their proofs speak of.
pub mod Alphabet
pub mod Answers
pub mod Inner
