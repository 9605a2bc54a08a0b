pub mod Ahead
pub mod Head
pub mod Keys
pub mod Refusals
pub mod Written
