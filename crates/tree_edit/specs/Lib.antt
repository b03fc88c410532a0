pub mod Editing
pub mod Settling
pub mod Roots
pub mod Joining
pub mod Dividing
