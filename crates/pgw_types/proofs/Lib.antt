pub mod NumberLaws
pub mod InfoLaws
