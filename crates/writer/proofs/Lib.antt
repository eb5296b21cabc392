pub mod Putting
pub mod Laws
pub mod Formats
pub mod Steps
pub mod Whole
