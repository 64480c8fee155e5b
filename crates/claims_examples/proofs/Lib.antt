pub mod PageCase
pub mod Refusals
pub mod Readings
