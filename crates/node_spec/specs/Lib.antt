pub mod Kinds
pub mod Cells
pub mod Layout
pub mod Faults
pub mod Nodes
