pub mod Marked
pub mod Causes
pub mod Traces
pub mod Outside
pub mod Vrased
pub mod Decisions
pub mod Demand3
pub mod Witness
