mod CauseLaws
pub mod RowLaws
