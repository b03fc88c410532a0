pub mod OrderLaws
pub mod ReadingLaws
mod SerialLaws
mod WrittenLaws
