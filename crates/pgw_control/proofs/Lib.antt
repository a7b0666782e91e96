pub mod OpeningLaws
pub mod OpeningWritten
