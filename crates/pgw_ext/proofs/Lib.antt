pub mod RowLaws
pub mod RowsWritten
