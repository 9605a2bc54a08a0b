pub mod Progress
pub mod SequenceOut
pub mod Sequences
