pub mod Heartbeat
pub mod Claims
