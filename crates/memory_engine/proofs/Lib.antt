pub mod PlainPins
pub mod PlainCommits
pub mod CommitKeeps
pub mod Stamping
