pub mod Hash
pub mod Padding
pub mod Promises
