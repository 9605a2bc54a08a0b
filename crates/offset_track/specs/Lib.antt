pub mod InForce
pub mod Track
