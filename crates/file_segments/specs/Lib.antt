pub mod Segments
pub mod Promises
pub mod Inner
