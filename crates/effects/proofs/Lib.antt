pub mod Bounds
pub mod Quiet
pub mod Laws
pub mod Settled
