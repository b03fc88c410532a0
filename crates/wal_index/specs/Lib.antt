pub mod Frames
pub mod Order
pub mod Parts
pub mod Commits
pub mod Index
