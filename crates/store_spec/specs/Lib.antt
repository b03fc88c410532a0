pub mod Store
pub mod Pins
pub mod Standing
pub mod Steps
pub mod Named
pub mod Reading
pub mod Steady
