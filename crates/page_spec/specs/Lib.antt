pub mod Bytes
pub mod Header
pub mod PageMap
pub mod Varint
pub mod View
