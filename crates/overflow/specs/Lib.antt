pub mod Following
pub mod Editing
pub mod Writing
pub mod Freeing
