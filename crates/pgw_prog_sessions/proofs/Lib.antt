mod PieceLaws
pub mod SummaryLaws
pub mod StreamLaws
pub mod CompletionLaws
