pub mod Reception
pub mod Uplink
pub mod Claims
