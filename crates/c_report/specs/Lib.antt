pub mod Answers
pub mod Flat
pub mod Claims
