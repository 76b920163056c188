pub mod Row
pub mod Values
