pub mod Decoded
pub mod Hunting
pub mod Kept
pub mod Lines
pub mod Places
pub mod Spelled
pub mod Spellings
