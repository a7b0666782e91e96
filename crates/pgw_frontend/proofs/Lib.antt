pub mod FrontendLaws
pub mod FrontendWritten
pub mod FrontendStable
