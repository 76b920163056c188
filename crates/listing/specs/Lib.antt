pub mod Line
pub mod Listing
pub mod Stretches
pub mod Claims
