pub mod Decisions
pub mod Runs
pub mod Promises
pub mod Inner
