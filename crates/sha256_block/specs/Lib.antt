pub mod Words
pub mod Functions
pub mod Constants
pub mod Roots
pub mod Block
pub mod Promises
