pub mod Table
pub mod Walk
pub mod Sent
pub mod Begun
pub mod Laws
pub mod Settled
