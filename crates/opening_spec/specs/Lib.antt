pub mod Found
pub mod States
pub mod Begins
