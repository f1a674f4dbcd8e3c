pub mod Lays
pub mod Narrow
