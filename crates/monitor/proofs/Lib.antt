pub mod Laws
pub mod Decisions
pub mod Checks
pub mod Turns
pub mod Calls
pub mod Runs
pub mod Settled
