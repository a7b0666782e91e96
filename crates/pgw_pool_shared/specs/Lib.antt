pub mod Pools
pub mod Shelves
