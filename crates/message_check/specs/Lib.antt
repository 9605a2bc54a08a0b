pub mod Check
pub mod Polynomials
