-- Telling: from the library's answer to what is returned and left. Parts: how long the parts of an accepted file are. Parting: of which file a part is.
-- Registering: where a body that is handed out starts.
pub mod Telling
pub mod Parts
pub mod Parting
pub mod Registering
