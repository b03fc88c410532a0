pub mod CellReads
pub mod Checks
pub mod Marking
pub mod Chains
pub mod Contents
pub mod Pages
