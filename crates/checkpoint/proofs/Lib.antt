mod Copies
pub mod Stepping
