pub mod Startup
pub mod Negotiate
pub mod Password
pub mod Login
pub mod Sound
pub mod Response
