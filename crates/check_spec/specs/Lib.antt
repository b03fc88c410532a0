pub mod Forms
pub mod Walk
pub mod Texts
