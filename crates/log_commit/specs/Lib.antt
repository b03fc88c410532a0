pub mod GoesBy
pub mod Commit
pub mod Pages
pub mod Appended
pub mod Fronts
