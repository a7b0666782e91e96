pub mod Client
pub mod Sending
pub mod Handling
pub mod Startup
pub mod Simple
pub mod Extended
