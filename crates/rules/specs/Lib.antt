pub mod Rules
pub mod Promises
pub mod Inner
