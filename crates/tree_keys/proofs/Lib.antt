pub mod Spotted
pub mod Since
pub mod Children
pub mod Refused
pub mod Found
