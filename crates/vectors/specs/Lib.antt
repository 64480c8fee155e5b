pub mod Pattern
pub mod Published
