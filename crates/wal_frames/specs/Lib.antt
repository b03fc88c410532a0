pub mod Found
pub mod Front
pub mod Scan
