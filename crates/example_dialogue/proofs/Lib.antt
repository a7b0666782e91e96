pub mod AskLaws
pub mod PieceLaws
