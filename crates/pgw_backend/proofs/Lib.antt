pub mod BackendStable
pub mod FrontLaws
pub mod BackendLaws
pub mod BackendWritten
