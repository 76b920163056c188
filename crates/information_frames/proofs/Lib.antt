pub mod Walking
pub mod Scanning
pub mod Refusing
pub mod Answering
pub mod Rows
pub mod Putting
pub mod Growing
pub mod Laws
