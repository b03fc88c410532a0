pub mod Orders
pub mod Found
pub mod Adding
pub mod Least
pub mod Rising
pub mod Writers
