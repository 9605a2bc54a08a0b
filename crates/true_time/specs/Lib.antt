pub mod Places
pub mod Receipts
pub mod Estimates
pub mod Values
pub mod Lines
pub mod Mixing
pub mod TrueTime
