pub mod Kinds
pub mod Refusals
pub mod Ranges
pub mod Prims
