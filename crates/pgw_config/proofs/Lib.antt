pub mod DigitLaws
pub mod GivenLaws
pub mod NumberLaws
pub mod ParseLaws
pub mod PieceLaws
