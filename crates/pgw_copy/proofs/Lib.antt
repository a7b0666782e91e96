pub mod ColumnLaws
pub mod RowLaws
pub mod RowsWritten
