pub mod Layout
pub mod Shown
pub mod Chains
pub mod Freelist
pub mod Trunks
pub mod Trees
pub mod Renaming
