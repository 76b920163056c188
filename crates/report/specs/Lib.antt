pub mod Bytes
pub mod Claims
pub mod Marks
pub mod Reading
