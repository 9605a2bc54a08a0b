pub mod Currents
pub mod Products
pub mod Ranges
pub mod Insides
pub mod Totals
pub mod Outsides
pub mod Pickups
pub mod Radii
