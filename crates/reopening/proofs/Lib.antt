mod FirstBytes
mod PagesHeld
mod Fine
mod Fronts
pub mod Reopened
pub mod StoresLeft
pub mod Stamps
pub mod FirstMap
pub mod Openings
