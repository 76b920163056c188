pub mod Receptions
pub mod Uplinks
