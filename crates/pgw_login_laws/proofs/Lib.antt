pub mod BoundLaws
pub mod Ends
pub mod SaltedEnd
pub mod StoredEnd
pub mod EntryLaws
pub mod LastingLaws
pub mod UnregisteredLaws
