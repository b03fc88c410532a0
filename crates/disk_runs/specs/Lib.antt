pub mod OnDisk
pub mod Opened
