pub mod Nodes
pub mod Joins
pub mod Places
pub mod Edits
