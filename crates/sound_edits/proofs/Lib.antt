pub mod Others
pub mod Kept
pub mod Inserted
pub mod Dropped
