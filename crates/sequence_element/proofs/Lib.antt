pub mod Combined
pub mod Judged
pub mod Linear
pub mod Stations
pub mod Through
pub mod Turns
