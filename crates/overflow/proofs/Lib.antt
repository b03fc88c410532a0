pub mod Chains
pub mod Links
pub mod Making
pub mod Written
pub mod Giving
pub mod Freed
