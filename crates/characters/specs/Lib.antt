pub mod Characters
pub mod Claims
