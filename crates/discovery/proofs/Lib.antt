-- Ranks: ranked terms. Queues: the states met, and letters as marks. Adding: a body more. Stages: the right-hand sides read so far. TooLarge: over the limits of a file.
-- Finished: all bodies are there. Loops: what each loop answers.
pub mod Ranks
pub mod Queues
pub mod Adding
pub mod Stages
pub mod Spelling
pub mod TooLarge
pub mod Finished
pub mod Loops
