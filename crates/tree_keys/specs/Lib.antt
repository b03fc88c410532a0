pub mod Keys
pub mod Spots
pub mod Standing
