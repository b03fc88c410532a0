pub mod Cases
pub mod Links
pub mod Moved
pub mod Numbers
pub mod PlainLaid
pub mod Unwritten
