pub mod Course
pub mod Play
pub mod Fronts
