pub mod Lists
pub mod Puts
pub mod Packs
pub mod Shown
