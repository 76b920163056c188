pub mod Height
pub mod Geometric
pub mod Claims
