pub mod LexemeLaws
pub mod Lookup
pub mod ValueLaws
