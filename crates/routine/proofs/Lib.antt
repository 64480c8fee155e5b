pub mod Order
pub mod Laws
pub mod Strings
pub mod Requests
pub mod Settled
