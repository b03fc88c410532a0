pub mod Rules
pub mod Indexing
