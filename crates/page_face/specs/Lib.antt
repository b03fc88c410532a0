pub mod Pins
pub mod Prepared
pub mod Calls
pub mod Pages
pub mod PageCalls
