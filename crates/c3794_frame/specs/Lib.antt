pub mod Frame
pub mod FrameOf
pub mod Nibble
pub mod Numbers
pub mod Reading
pub mod Stream
pub mod View
