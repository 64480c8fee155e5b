pub mod Traces
pub mod Promises
