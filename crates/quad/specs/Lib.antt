pub mod Quad
pub mod Meets
