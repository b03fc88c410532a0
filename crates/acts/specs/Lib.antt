pub mod Pagers
pub mod Standing
pub mod Logged
pub mod Turns
pub mod Playing
