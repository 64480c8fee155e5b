pub mod Lists
pub mod Described
pub mod Walk
pub mod Settled
