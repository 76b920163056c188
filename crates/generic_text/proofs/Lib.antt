pub mod Texts
pub mod Rewriting
pub mod Walking
pub mod Expanding
pub mod Putting
pub mod Answering
pub mod Laws
