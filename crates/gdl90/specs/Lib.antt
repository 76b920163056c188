pub mod Degrees
pub mod Collecting
pub mod Payload
pub mod Messages
pub mod Texts
