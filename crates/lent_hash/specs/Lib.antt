pub mod Promises
pub mod Objects
