pub mod Lists
pub mod Laws
pub mod Checks
pub mod Settled
