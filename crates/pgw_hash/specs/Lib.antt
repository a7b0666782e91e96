pub mod Xor
pub mod Hmac
pub mod Codes
pub mod Pbkdf2
pub mod Saslprep
pub mod Md5Password
