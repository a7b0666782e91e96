pub mod Ask
pub mod Push
