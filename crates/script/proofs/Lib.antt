pub mod Fronts
pub mod Agreement
pub mod Lines
