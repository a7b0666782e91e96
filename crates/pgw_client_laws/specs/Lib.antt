pub mod Turns
pub mod Calls
pub mod Stands
pub mod Startup
pub mod Extended
