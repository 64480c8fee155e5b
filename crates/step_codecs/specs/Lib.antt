pub mod Monitors
pub mod Promises
pub mod Back
