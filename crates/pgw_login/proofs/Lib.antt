pub mod ActLaws
pub mod Challenging
