pub mod OverLink
pub mod Session
pub mod SessionSteps
