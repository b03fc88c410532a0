pub mod Numbers
pub mod Pointers
pub mod Renumbered
pub mod Joining
pub mod Whole
pub mod Seen
