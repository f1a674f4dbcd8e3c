pub mod F32
pub mod Extremes
pub mod Signs
pub mod Ranges
pub mod Acos
