pub mod Lists
pub mod Output
pub mod Padding
pub mod Laws
pub mod Bytes
