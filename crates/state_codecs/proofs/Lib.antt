pub mod States
pub mod Writing
pub mod Laws
