pub mod PartLaws
pub mod QueryLaws
pub mod TalkingLaws
pub mod CheckLaws
pub mod ReportLaws
pub mod FittingLaws
pub mod PlaceLaws
pub mod TurnLaws
