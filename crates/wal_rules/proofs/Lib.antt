pub mod Places
mod Held
mod Conflicts
mod Search
mod Tests
