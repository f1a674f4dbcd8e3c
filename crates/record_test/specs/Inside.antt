pub mod Prims
