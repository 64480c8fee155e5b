pub mod Running
pub mod Promises
