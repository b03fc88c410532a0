pub mod Walked
pub mod Changed
pub mod PutIn
