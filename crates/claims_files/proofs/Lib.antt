pub mod Parts
pub mod Segments
pub mod Bytes
pub mod Files
