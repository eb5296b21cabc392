pub mod Cycle
pub mod Start
