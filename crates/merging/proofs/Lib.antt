-- Laws of the classes of equivalent states. Rounds, Calling, Worklist, Stable: refining the classes, round by round.
pub mod Rounds
pub mod Calling
pub mod Worklist
pub mod Stable
