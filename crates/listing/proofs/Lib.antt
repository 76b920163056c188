pub mod Texts
pub mod Rows
pub mod Steps
pub mod Passing
pub mod Joining
pub mod Trailing
pub mod Framed
