pub mod Pair
pub mod Appending
pub mod Switch
pub mod Fields
pub mod Frame
pub mod Header
