pub mod Ways
pub mod Payloads
pub mod Looking
pub mod Entries
