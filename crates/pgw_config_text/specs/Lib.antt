pub mod KeyValue
pub mod Part
pub mod Reader
pub mod Shown
pub mod Text
pub mod Url
pub mod UrlReader
