pub mod Bytes
pub mod Every
pub mod Packing
pub mod Signed
pub mod Storing
pub mod Xor
