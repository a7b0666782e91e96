pub mod Rows
pub mod Values
pub mod Cuts
pub mod Unread
pub mod Lending
pub mod Places
pub mod Written
