pub mod Bounds
pub mod Gains
pub mod Journals
pub mod Lines
pub mod Paces
pub mod Turns
