pub mod BlockLaws
pub mod TopLaws
pub mod Decide
pub mod Stack
pub mod Laws
pub mod Parts
pub mod Walk
pub mod All
