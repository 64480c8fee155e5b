pub mod Keys
pub mod Masks
pub mod Joined
pub mod Laws
pub mod Settled
