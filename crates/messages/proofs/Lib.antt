pub mod Dispatch
pub mod Laws
pub mod Retired
