pub mod Buffers
pub mod Spelling
pub mod Writing
