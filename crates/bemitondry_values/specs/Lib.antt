pub mod Values
pub mod Light
