pub mod Hmac
pub mod Promises
