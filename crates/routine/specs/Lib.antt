pub mod Strings
pub mod Order
pub mod Routine
pub mod Promises
