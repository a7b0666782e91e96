pub mod Asynchronous
pub mod Backend
pub mod ClientError
pub mod Texts
pub mod Front
