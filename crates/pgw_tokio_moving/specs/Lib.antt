pub mod Calls
pub mod Moving
pub mod Future
