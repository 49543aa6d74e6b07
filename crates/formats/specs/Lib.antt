-- What the file of a transducer is, and what the entry points promise: Sheet, Answers. Samples has the bytes of document 01's samples.
-- Inner holds what only inner functions and their proofs speak of.
pub mod Sheet
pub mod Answers
pub mod Samples
pub mod Inner
