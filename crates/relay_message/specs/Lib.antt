pub mod Fields
pub mod FitPhases
pub mod Hunter
pub mod Marked
pub mod MessageOf
pub mod Messages
pub mod Reading
