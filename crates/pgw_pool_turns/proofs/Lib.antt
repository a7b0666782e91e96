pub mod DeskLaws
pub mod RowLaws
pub mod StepLaws
