pub mod Promises
pub mod Inner
