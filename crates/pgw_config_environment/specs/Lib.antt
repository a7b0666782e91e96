pub mod Places
pub mod Variables
