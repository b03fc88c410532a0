pub mod Untold
pub mod Disk
