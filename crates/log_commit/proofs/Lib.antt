mod Growing
pub mod Lying
mod Same
mod Appending
pub mod Order
pub mod Steps
pub mod SinceSteps
pub mod FrontLaws
