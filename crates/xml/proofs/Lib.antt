-- Tags: a text that begins with a tag. Comparing: a text compared word by word. Standing: symbols read from the last to the first, and the levels of the trees behind. Lengths: how long a text is. Walking: a walk over the code of an output tree.
-- Stepping: its steps in the loop that compares a text. Collecting: the symbols of a text's tags. Converting: what the writer and the reader answer. Laws: what their promises come to.
pub mod Tags
pub mod Comparing
pub mod Standing
pub mod Lengths
pub mod Walking
pub mod Stepping
pub mod Collecting
pub mod Converting
pub mod Laws
