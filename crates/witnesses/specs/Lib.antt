pub mod Live
pub mod Shared
pub mod SharedLaws
