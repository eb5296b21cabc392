pub mod Tabulated
pub mod Padded
pub mod Model
pub mod Cover
pub mod Text
