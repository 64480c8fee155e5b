pub mod Laws
pub mod Calls
pub mod Placed
pub mod Vetted
pub mod Settled
