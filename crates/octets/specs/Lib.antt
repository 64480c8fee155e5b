pub mod Numbers
pub mod Promises
pub mod Back
