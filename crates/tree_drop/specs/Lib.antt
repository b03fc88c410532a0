pub mod Dropping
pub mod Parts
