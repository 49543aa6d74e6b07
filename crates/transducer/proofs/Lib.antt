-- Opening: an accepted file with its parts. Walks, Meaning: what is written, byte by byte, is the code of the output. Depths: the depths of the marks. Levels, OutputLevels: the levels that are counted by them are those of the output.
-- Places: terms that stand behind one another. Subtrees: the table of where each subtree ends. Noting: the sizes and levels of what states write, and where it stands. Filling: writing as far as there is room.
-- Outputs: the output is one tree. Translating: what translation asks and answers.
-- Laws: what the promises come to; read it first. Samples: the samples of document 01 that are proved.
pub mod Opening
pub mod Places
pub mod Depths
pub mod Levels
pub mod Walks
pub mod Subtrees
pub mod Noting
pub mod Filling
pub mod Meaning
pub mod OutputLevels
pub mod Outputs
pub mod Translating
pub mod Laws
pub mod Samples
