pub mod Steps
pub mod Promises
