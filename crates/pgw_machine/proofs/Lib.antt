pub mod CourseLaws
pub mod PlayLaws
pub mod FrontLaws
