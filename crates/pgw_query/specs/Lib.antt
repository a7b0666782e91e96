pub mod Fields
pub mod Rows
pub mod Runs
pub mod Sound
pub mod Tags
