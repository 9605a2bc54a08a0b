pub mod Draws
pub mod Passing
pub mod Scenarios
pub mod Sections
pub mod Settings
pub mod Texts
