pub mod Choices
pub mod Maps
