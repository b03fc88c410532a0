pub mod Places
pub mod Picked
pub mod Allowed
