pub mod Given
pub mod Why
pub mod Plays
pub mod OwnMaps
pub mod Openings
pub mod Opens
