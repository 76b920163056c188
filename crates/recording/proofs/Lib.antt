pub mod Cutting
pub mod Unescaping
pub mod Judging
pub mod Checking
pub mod Turns
pub mod Bounding
