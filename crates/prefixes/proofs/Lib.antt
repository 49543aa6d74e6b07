-- Ends: where the first tree of a word ends. Patterns: the end of one, and what two share. Grafts: patterns as bytes, grafting, and the table of patterns after a cut.
-- Above: patterns above the common prefixes. Settling: cut upon cut, until the patterns are the common prefixes.
-- Starting: the first table, and the common prefixes from it. Samples: the samples of document 01 that are proved.
pub mod Ends
pub mod Patterns
pub mod Grafts
pub mod Above
pub mod Settling
pub mod Starting
pub mod Samples
