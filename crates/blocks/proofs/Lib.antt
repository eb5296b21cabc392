pub mod Codes
pub mod Laws
pub mod Guards
pub mod Steps
pub mod Start
