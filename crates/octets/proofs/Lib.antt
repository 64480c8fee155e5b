pub mod Laid
pub mod Reading
pub mod Laws
pub mod Digits
pub mod Settled
