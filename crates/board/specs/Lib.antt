pub mod Memory
pub mod Attestation
pub mod Promises
pub mod Inner
