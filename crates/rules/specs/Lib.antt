pub mod Chunk
pub mod Answers
pub mod Rules
