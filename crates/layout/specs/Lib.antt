pub mod Regions
pub mod Layouts
pub mod Calls
pub mod Promises
pub mod Good
