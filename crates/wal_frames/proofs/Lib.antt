pub mod FrameParts
mod Fronts
mod Kept
mod Knows
mod Opening
mod Pieces
mod Written
