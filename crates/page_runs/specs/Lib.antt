pub mod Reading
pub mod Status
pub mod Sessions
pub mod Outcome
pub mod InMemory
pub mod Reply
