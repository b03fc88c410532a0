pub mod Lists
pub mod Renamed
pub mod Local
pub mod Once
pub mod Freelists
pub mod TrunkSteps
pub mod Rising
