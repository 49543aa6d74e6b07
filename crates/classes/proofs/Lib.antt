-- Laws of classes of states. Keys: marks and bodies by their keys. Numbering: classes in the order of their least members. Patterns: the classes to start from.
pub mod Keys
pub mod Numbering
pub mod Patterns
