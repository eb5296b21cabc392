pub mod Outcomes
pub mod Visits
