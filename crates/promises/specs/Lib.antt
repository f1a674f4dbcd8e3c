pub mod Bytes
pub mod Demand1
pub mod Demand3
pub mod Lowest
pub mod Applies
