pub mod Edits
pub mod Storing
pub mod Given
pub mod Settled
pub mod Sizes
pub mod Rooted
pub mod Joined
pub mod Divided
