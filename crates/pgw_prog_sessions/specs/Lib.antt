pub mod AnswerLines
pub mod Pieces
pub mod ErrorNames
pub mod SessionText
pub mod Summary
pub mod Stream
