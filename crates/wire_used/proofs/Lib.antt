pub mod Parts
pub mod Loads
