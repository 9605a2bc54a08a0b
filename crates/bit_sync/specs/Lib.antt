pub mod Frames
pub mod StandsFor
pub mod Register
pub mod Step
pub mod View
pub mod Undamaged
