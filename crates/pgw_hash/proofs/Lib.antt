mod Xoring
mod Rounds
pub mod Prepared
