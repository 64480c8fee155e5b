pub mod Laws
pub mod None
pub mod Settled
