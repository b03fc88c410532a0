pub mod AsRead
mod FrameLaid
pub mod GoingOver
mod NewHeaders
pub mod Reading
pub mod Standing
mod Written
