pub mod Frames
pub mod Walk
pub mod Answers
pub mod Adding
pub mod Contents
pub mod Claims
pub mod Samples
