pub mod Cause
pub mod Counting
pub mod Progress
pub mod Through
pub mod TripAt
