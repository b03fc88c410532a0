pub mod BytesLaws
pub mod VarintLaws
