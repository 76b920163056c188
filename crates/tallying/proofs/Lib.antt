pub mod Counting
pub mod Streaming
