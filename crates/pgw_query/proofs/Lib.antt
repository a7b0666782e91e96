pub mod RowLaws
pub mod RowsWritten
pub mod RunLaws
pub mod TagLaws
pub mod WordLaws
