pub mod Counts
pub mod Infos
pub mod Marks
pub mod Numbers
pub mod Results
pub mod ScramErrors
pub mod Versions
