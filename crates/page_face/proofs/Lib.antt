mod ReadSets
pub mod EngineCalls
pub mod PageLaws
