pub mod Aligned
pub mod Calm
pub mod Coming
