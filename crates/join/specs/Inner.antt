-- What only inner functions and their proofs speak of: the pairs of states, the parts of two files, and what is discovered.
pub mod Pairs
pub mod Parts
pub mod Discovering
pub mod Sheets
