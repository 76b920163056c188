pub mod Laws
pub mod Marked
pub mod Packing
pub mod Good
pub mod Typed
