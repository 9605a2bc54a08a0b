mod FrameBits
mod Acts
mod Queues
pub mod NextTicks
