pub mod History
pub mod Visit
pub mod Cut
pub mod Script
pub mod Limits
