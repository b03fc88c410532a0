pub mod Tests
pub mod Ladder
pub mod Tables
pub mod Statements
pub mod Depth
pub mod Laws
