pub mod Writing
pub mod Laws
pub mod Settled
