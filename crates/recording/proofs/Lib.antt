pub mod ChunkBytes
pub mod Texts
