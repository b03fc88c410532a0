pub mod Bounded
pub mod Coming
pub mod Placing
pub mod Scanning
pub mod Seeking
pub mod Reads
pub mod Walking
