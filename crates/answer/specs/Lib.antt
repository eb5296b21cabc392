pub mod Answer
pub mod Codes
pub mod Numbers
