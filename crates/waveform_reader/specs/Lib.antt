pub mod Columns
pub mod Draft
pub mod Names
pub mod Progress
pub mod Refusals
pub mod Scenario
pub mod Shapes
pub mod Sound
