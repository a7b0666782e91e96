pub mod Desks
pub mod Rows
pub mod Standings
pub mod Steps
