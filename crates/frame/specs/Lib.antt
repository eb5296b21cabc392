pub mod Words
pub mod Model
pub mod Slots
