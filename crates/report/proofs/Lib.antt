pub mod Lay
pub mod Decimal
pub mod Laws
pub mod Largest
pub mod Calls
pub mod Settled
