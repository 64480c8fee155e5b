pub mod Tells
pub mod Follows
pub mod Answers
