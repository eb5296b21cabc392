pub mod Codes
pub mod Answer
pub mod Blocks
pub mod Steps
pub mod Chunks
