-- Decimals: how a number is written digit by digit, and how long it is. Pieces: pieces of text, one behind the other. Bounds: how long the lines are. Reporting: the lines for two files. Laws: what the promise comes to.
pub mod Decimals
pub mod Pieces
pub mod Bounds
pub mod Reporting
pub mod Laws
