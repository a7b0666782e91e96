pub mod DeskLaws
pub mod FrameLaws
pub mod ForetoldLaws
pub mod ReadingLaws
pub mod CallLaws
pub mod ConnectLaws
pub mod CancelLaws
pub mod ClosingLaws
pub mod ExtendedLaws
pub mod ExchangeLaws
pub mod RequestLaws
pub mod LentLaws
mod RowLaws
