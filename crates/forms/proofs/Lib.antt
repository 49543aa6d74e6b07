-- Slices: elements of a list from an index on. Leaves: which leaf a grammar names does not matter. Files: the transducer of whole bodies is well-formed, and identical transducers have one file. Filing: a form written as a file. Loading: a file as a table.
pub mod Slices
pub mod Leaves
pub mod Files
pub mod Filing
pub mod Loading
