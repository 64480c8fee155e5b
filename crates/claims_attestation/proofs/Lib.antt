pub mod Accepts
pub mod Posted
pub mod Demand2
