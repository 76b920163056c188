pub mod Degrees
pub mod Feet
pub mod TimeOfDay
pub mod Claims
