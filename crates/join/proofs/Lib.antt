-- Laws of joining two transducers. Joined: the right-hand sides of the joined transducer.
-- Stocks: the file of its alphabets. Numbers: the pairs by their numbers. Adding: its right-hand sides, one by one.
-- Forming: the joined transducer of tables, of parts and of files. Entering: what the functions on the way there ask. Laws: the joined transducer translates as the second after the first; the contract determines the answer; alike files; three files.
pub mod Joined
pub mod Stocks
pub mod Numbers
pub mod Adding
pub mod Forming
pub mod Entering
pub mod Laws
