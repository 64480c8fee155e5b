pub mod Calls
pub mod Frames
pub mod Promises
pub mod Inner
pub mod Streams
