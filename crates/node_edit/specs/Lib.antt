pub mod Runs
pub mod Editing
pub mod Keys
pub mod Payloads
pub mod Dividing
