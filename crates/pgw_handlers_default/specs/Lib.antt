pub mod Simple
pub mod Startup
pub mod Extended
pub mod Causes
pub mod Rows
