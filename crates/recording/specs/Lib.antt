pub mod Cut
pub mod Steps
pub mod Recording
pub mod Claims
