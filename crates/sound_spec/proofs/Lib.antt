pub mod Once
pub mod Within
pub mod Apart
pub mod Local
pub mod Versions
