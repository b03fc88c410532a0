pub mod Rows
pub mod KeyLaws
mod UpKeys
mod PayloadLaws
mod DownCells
mod Weights
mod Dividing
mod RowCuts
mod Crowds
mod Crowding
mod JoinedCuts
