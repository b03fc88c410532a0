mod Appending
pub mod Resurrected
