pub mod Captures
pub mod Claims
