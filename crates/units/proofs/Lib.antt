pub mod Exact
pub mod Wide
