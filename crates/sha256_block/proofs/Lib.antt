pub mod Loops
pub mod Laws
pub mod Rest
pub mod Roots
