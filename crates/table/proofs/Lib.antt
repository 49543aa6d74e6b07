-- Differences, Registers: the rows that need two transducers, and a registry. Running: calls of a registry, by the entry of the same file. Table: every row is so.
pub mod Differences
pub mod Running
pub mod Registers
pub mod Table
