-- Partial: partial input trees (02: designs with blanks), and what the transducer of a file gives on them. AsSymbol: how translation gives that. Rows: samples.
pub mod Partial
pub mod AsSymbol
pub mod Rows
