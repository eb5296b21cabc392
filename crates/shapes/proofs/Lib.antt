pub mod Lists
pub mod Held
pub mod Joins
pub mod Text
pub mod Alike
