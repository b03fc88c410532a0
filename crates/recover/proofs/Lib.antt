mod Placing
mod Laying
mod Resets
pub mod Page1
mod Missing
mod FirstRead
mod PlacesHold
mod LogsRead
pub mod Page1Read
mod Held
mod SizesRead
mod Enough
mod HeaderRead
mod SeenOld
mod OldView
mod Judged
pub mod SeenPages
pub mod First
pub mod RecoveredPages
mod FirstPages
mod Committing
mod Beginnings
pub mod NewPages
mod FoundsNew
pub mod Readying
mod Migrating
pub mod SeenFiles
pub mod Begun
