pub mod States
pub mod Promises
pub mod Back
