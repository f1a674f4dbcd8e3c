pub mod Order
pub mod Extremes
pub mod Rounding
pub mod Holding
pub mod Bounds
pub mod Roots
