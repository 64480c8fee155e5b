pub mod Numbers
pub mod Answers
pub mod Text
pub mod Promises
