pub mod Texts
pub mod Product
pub mod Answers
pub mod Codes
pub mod Putting
pub mod Claims
