pub mod Order
pub mod Serial
pub mod Record
pub mod Reading
pub mod Written
pub mod Writing
