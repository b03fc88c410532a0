pub mod Schema
pub mod Sound
