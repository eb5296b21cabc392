pub mod Open
pub mod Cases
