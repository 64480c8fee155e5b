pub mod Tests
pub mod First
pub mod Bytes
pub mod Settled
