pub mod Back
pub mod Sixteen
