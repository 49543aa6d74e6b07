-- Xml: the text of an output tree. Answers: what the writer and the reader promise. Inner holds what only inner functions and their proofs speak of.
pub mod Xml
pub mod Answers
pub mod Inner
