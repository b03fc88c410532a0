pub mod Leading
pub mod Acting
pub mod Replied
pub mod Written
pub mod Ranges
pub mod Advancing
pub mod Fronts
pub mod Standing
pub mod Exits
pub mod Runs
pub mod Serial
pub mod Memory
mod WorkedRuns
mod Counting
pub mod Complete
