pub mod HandleLaws
pub mod HeldLaws
pub mod PlaceLaws
pub mod ReadLaws
pub mod SessionLaws
pub mod Walks
