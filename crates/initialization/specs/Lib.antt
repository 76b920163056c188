pub mod Initialization
pub mod Claims
