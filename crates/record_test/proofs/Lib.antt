pub mod Prims
pub mod Numbers
