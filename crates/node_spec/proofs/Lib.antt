pub mod CellLaws
pub mod FaultLaws
pub mod PieceLaws
pub mod Decode
pub mod NodeLaws
