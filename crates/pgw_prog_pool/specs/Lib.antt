pub mod Lines
pub mod Standing
pub mod Views
pub mod Outcome
