pub mod Tally
pub mod History
pub mod Claims
