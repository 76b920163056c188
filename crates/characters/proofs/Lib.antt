pub mod Inverse
pub mod Listed
