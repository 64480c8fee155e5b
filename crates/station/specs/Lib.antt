pub mod Lengths
pub mod Promises
