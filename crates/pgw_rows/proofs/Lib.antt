pub mod CutLaws
pub mod NumberLaws
pub mod UnreadLaws
pub mod WrittenLaws
