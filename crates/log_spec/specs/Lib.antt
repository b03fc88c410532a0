pub mod Accept
pub mod Checksum
pub mod Frames
pub mod LogHeader
pub mod Written
