pub mod Between
pub mod Instants
pub mod Mixed
pub mod Mixer
pub mod Quotient
pub mod Values
