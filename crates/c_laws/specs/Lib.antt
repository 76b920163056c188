pub mod Zeroed
pub mod Claims
