-- Letters, Pairs, Offsets: what bytes say. Marks, Behind, Counts: the readers of bodies and counts.
-- Cuts, Lines, Sheets: bodies and their bytes, terms by number, the file of a transducer. Writing, Verdicts: what entry points answer. Laws: what the promises come to.
pub mod Letters
pub mod Pairs
pub mod Offsets
pub mod Marks
pub mod Behind
pub mod Counts
pub mod Cuts
pub mod Lines
pub mod Sheets
pub mod Writing
pub mod Verdicts
pub mod Laws
