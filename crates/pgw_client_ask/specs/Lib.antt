pub mod Asking
pub mod Columns
