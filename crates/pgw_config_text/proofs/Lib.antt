pub mod CutLaws
pub mod KeyValueLaws
pub mod TextLaws
pub mod UrlLaws
