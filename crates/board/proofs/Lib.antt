pub mod Stores
pub mod Laws
pub mod Attests
pub mod Settled
