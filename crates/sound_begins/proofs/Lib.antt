pub mod NewTables
pub mod Begins
pub mod Counts
