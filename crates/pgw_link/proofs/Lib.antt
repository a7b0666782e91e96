pub mod CallLaws
pub mod PieceLaws
pub mod LogLaws
pub mod Walks
pub mod MemoryDialLaws
