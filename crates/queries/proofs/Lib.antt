-- Uses, Reading, Calls, Reached: the linear test. Following: what the reader of one symbol asks and answers.
-- Laws: what the promises come to; read it first. Samples: the samples of the linear test that are proved.
pub mod Uses
pub mod Reading
pub mod Calls
pub mod Reached
pub mod Following
pub mod Laws
pub mod Samples
