pub mod Convert
pub mod Post
pub mod Chunk
