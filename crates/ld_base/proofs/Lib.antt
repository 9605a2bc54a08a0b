pub mod Accepted
pub mod ChunkBits
pub mod ChunkReads
pub mod Sizes
