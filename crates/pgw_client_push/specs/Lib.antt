pub mod State
pub mod Behind
pub mod Serving
pub mod Standing
pub mod Calls
pub mod Told
