pub mod Conflicts
pub mod PageSets
pub mod Laying
pub mod Stamped
pub mod WrittenSets
pub mod Here
