-- What the exported functions return and leave; Registered: those of the registry.
pub mod Exported
pub mod Registered
