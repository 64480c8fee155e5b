pub mod Filling
pub mod Running
pub mod Answers
pub mod Laws
pub mod Settled
