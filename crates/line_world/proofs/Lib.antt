mod Stationing
mod Slotting
pub mod Passing
mod Turning
mod Asking
mod Ways
mod Cabling
pub mod Moments
mod Quiets
pub mod FirstSlots
mod Frames
mod SampleTicks
mod Speaking
mod Sampling
mod Leasts
pub mod Idle
mod Times
mod Stepping
pub mod Firsts
