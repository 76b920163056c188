pub mod Bits
pub mod Bytes
pub mod Lent
pub mod Packing
pub mod Signed
