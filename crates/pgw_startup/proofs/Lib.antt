pub mod LoginLaws
pub mod LoginWritten
pub mod VersionLaws
pub mod ResponseLaws
pub mod PairsLaws
pub mod FirstLaws
pub mod ClientLaws
pub mod FirstWritten
